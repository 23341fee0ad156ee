pub mod Machines
pub mod Seeing
pub mod Pairs
pub use Rattle.wc_machine.specs.Machines.{IsMachineSound, Leaves, MachineState, RepresentsText, machine_view, text_of}
pub use Rattle.wc_machine.specs.Seeing.{IsScanShown, IsSeen, has_result, kept_at, left_real, real_state, started_line}
pub use Rattle.wc_machine.specs.Pairs.{AreLines, Follow, IsPrefix, MayFollow, StartsWith, codes_of}
