pub mod FrontDoor
pub mod RuleEnd
pub mod WholeLog
