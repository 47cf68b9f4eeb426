pub mod CasesHold
pub mod ExamplesHold
pub mod ReceivedLaws
pub mod InvariantKept
pub mod Refusals
pub mod Demand3Holds
pub mod ConfigureLaws
pub mod KeyLaws
