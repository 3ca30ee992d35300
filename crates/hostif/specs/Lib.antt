pub mod Post
pub mod Exchange
