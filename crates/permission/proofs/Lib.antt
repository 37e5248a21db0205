-- Laws of a permission: of owners, on an application resource, and of the loop over the links.
pub mod Owners
pub mod Application
mod LinksUnion
