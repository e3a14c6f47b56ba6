pub mod Unions
pub mod Made
pub mod MemberLaws
