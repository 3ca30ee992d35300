pub mod Activity
