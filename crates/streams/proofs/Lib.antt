pub mod OutputLaws
pub mod BatchLaws
