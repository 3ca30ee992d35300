pub mod LoadLaws
pub mod Theorems
pub mod ByteLaws
pub mod ShownLaws
