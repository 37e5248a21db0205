-- Laws of the memory as it is changed, and which memory is a queue.
pub mod Laws
pub mod Queues
