pub mod Laws
pub mod BufferLaws
pub mod ListingLaws
