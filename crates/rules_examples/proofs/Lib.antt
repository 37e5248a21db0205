-- Examples and runs by computation: the paper's own (Records), what is read (Reading) and given (Grants), default rows (DefaultRows), asserted
-- roles (Roles), demand 3 in a yard (Isolation) and each part of its premise, which is needed (PremiseNeeded), hand-ins and takes (Waiting), what
-- the theorems of calls say of them (Handed), two orders of the access rows (Order), and C calls and restarts (CRuns).
-- They cost more than the laws do, and nothing is on them.
pub mod Records
pub mod Reading
pub mod Grants
pub mod DefaultRows
pub mod Isolation
pub mod PremiseNeeded
pub mod Roles
pub mod Waiting
pub mod Handed
pub mod Order
pub mod CRuns
