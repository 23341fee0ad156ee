-- What the blocks of the code represent: the fields of the definitions. (No rule of the language.)
use Rattle.wc_model.specs.Language.Blocks.{RTrigFields, SrFields, RsFields, CtuFields, TonFields, TofFields, TpFields}
use Rattle.wc_blocks.specs.declared.ctu.Ctu.{Ctu}
use Rattle.wc_blocks.specs.declared.r_trig.RTrig.{RTrig}
use Rattle.wc_blocks.specs.declared.rs.Rs.{Rs}
use Rattle.wc_blocks.specs.declared.sr.Sr.{Sr}
use Rattle.wc_blocks.specs.declared.tof.Tof.{Tof}
use Rattle.wc_blocks.specs.declared.ton.Ton.{Ton}
use Rattle.wc_blocks.specs.declared.tp.Tp.{Tp}

-- R_TRIG
abbrev pub r_trig_view : RTrig → RTrigFields
r_trig_view b = record { clk = b.clk; q = b.q; m = b.m }

-- SR
abbrev pub sr_view : Sr → SrFields
sr_view b = record { s1 = b.s1; r = b.r; q1 = b.q1 }

-- RS
abbrev pub rs_view : Rs → RsFields
rs_view b = record { s = b.s; r1 = b.r1; q1 = b.q1 }

-- CTU
abbrev pub ctu_view : Ctu → CtuFields
ctu_view b = record { cu = b.cu; r = b.r; pv = b.pv; q = b.q; cv = b.cv; m = b.m }

-- TON
abbrev pub ton_view : Ton → TonFields
ton_view b = record { input = b.input; pt = b.pt; q = b.q; et = b.et; run = b.run; start = b.start }

-- TOF
abbrev pub tof_view : Tof → TofFields
tof_view b = record { input = b.input; pt = b.pt; q = b.q; et = b.et; phase = b.phase; start = b.start }

-- TP
abbrev pub tp_view : Tp → TpFields
tp_view b = record { input = b.input; pt = b.pt; q = b.q; et = b.et; phase = b.phase; start = b.start }
