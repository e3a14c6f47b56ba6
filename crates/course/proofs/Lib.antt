pub mod CourseRight
pub mod TurnsLaws
