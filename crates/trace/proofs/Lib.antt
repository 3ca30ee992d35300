pub mod ArgumentLaws
pub mod OperationLaws
pub mod PairLaws
