-- Waiting records as one reads them: the queue, hand-ins and takes (Queue), and how a terminal is written as bytes and read from them (QueueBytes).
pub mod Queue
pub mod QueueBytes
