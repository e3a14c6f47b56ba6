pub mod Lamps
pub mod FromTexts
pub mod OneOutput
pub mod FromLog
pub mod AtEnd
