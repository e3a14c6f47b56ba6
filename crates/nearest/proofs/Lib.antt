pub mod MemberTurns
