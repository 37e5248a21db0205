-- Laws of a decision.
pub mod Laws
