pub mod Answers
pub mod Rule
pub mod Rules
pub mod Projection
pub mod Laws
