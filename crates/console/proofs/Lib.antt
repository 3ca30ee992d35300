pub mod BeginLaws
pub mod TurnLaws
pub mod AheadLaws
pub mod TalkLaws
