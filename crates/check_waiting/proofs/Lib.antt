-- Laws of the memory's bytes.
mod Laws
