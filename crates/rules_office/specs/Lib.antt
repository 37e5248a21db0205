-- What the office gets (Office), and the rows that its text tells apart (Written).
pub mod Office
pub mod Written
