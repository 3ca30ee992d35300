pub mod Buffer
pub mod Reply
pub mod Port
pub mod Listing
