-- Laws of what access rows give on the links.
pub mod ByLinkLaws
