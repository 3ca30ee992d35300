pub mod Job
pub mod List
pub mod Token
