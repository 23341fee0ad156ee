pub mod CommandLine
pub mod Table
pub mod Asked
pub use Rattle.wc_arguments.specs.CommandLine.{Takes}
pub use Rattle.wc_arguments.specs.Table.{row_rule, with_options, with_commands, command_of}
