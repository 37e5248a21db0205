-- Laws of hand-in, as the code does it.
mod Laws
