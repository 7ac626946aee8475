pub mod Follows
pub mod Courses
