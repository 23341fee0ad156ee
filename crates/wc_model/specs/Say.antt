-- What is answered: the report of a run, of a check, of a job.
pub mod Report
pub mod ProgramReport
pub mod LogFor
pub mod Job
pub mod UnitReport
