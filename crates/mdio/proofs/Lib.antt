pub mod Document
pub mod Laws
pub mod Moved
