-- What a suspended `prepare_copper` still says, from what its job gives
use Rattle.jobs.specs.declared.job.Job.{Job}
use Rattle.jobs.specs.Job.{told_job}
use Rattle.hardware.specs.declared.Step.{Step}
use Rattle.hardware.specs.Bits.{inverse}
use Rattle.hardware.specs.Talk.{Call, Res, end, ◌>>=◌, ◌>>◌, read, return}
use Rattle.std.specs.Prelude.{ℕ, ◌-◌, ◌/◌, ◌%◌, ◌^◌, Bool, true, false, List, Option}
use Rattle.hardware.specs.declared.Managed.{Managed}
use Rattle.hardware.specs.declared.Port.{Port}
use Rattle.answers.specs.declared.X557.{X557}
use Rattle.reference.specs.X552.{prepared_copper, prepare_reset, prepare_alarms, prepare_found, prepare_probed, prepare_scanned, prepare_sel}
use Rattle.phy.specs.Clock.{resume_clock}
use Rattle.phy.specs.Modify.{resume_modify}
use Rattle.phy.specs.Probe.{resume_probe}
use Rattle.phy.specs.Reset.{resume_reset}
use Rattle.phy.specs.Scan.{resume_scan}
use Rattle.arguments.specs.declared.Register.{Register}
use Rattle.x552.specs.declared.prepare.Phy.{Phy}
use Rattle.x552.specs.declared.prepare.PrepareCopper.{PrepareCopper}
use Rattle.x552.specs.declared.prepare.PrepareCopper.TheVariants as prepare

-- the PHY that NW_MNG_IF_SEL names
abbrev pub sel_phy : ℕ → ℕ
sel_phy sel = sel / 2 ^ 3 % 32

abbrev pub stall_of : Phy → Register
stall_of f = record { phy = f.phy; device = 0x1e; register = 0xc479; keep = inverse 16 0x8000; set = 0 }

-- the Rust's functions, of the PHY that was found
abbrev pub prepared_of : Port → Phy → Bool → Bool → X557
prepared_of port f unstalled reset = prepared_copper port f.phy f.id f.sel unstalled reset

abbrev pub reset_then : Managed → Phy → Bool → Call X557
reset_then managed f unstalled = prepare_reset managed.port managed.veto f.phy f.id f.sel unstalled

abbrev pub alarms_then : Managed → Phy → ℕ → Call X557
alarms_then managed f alarms = prepare_alarms managed.port managed.veto f.phy f.id f.sel alarms

abbrev pub found_then : Managed → Phy → Call X557
found_then managed f = prepare_found managed.port managed.veto f.phy f.id f.sel

-- what comes after each of its parts
abbrev pub clock_then : Managed → Call (Unit {0}) → Call X557
clock_then managed t = t >> (read 0x11178 >>= λ sel. prepare_sel managed.port managed.veto sel)

abbrev pub probe_then : Managed → ℕ → Call (Option ℕ) → Call X557
probe_then managed sel t = t >>= prepare_probed managed.port managed.veto sel (sel_phy sel)

abbrev pub scan_then : Managed → ℕ → Call (Option (ℕ × ℕ)) → Call X557
scan_then managed sel t = t >>= prepare_scanned managed.port managed.veto sel

abbrev pub stall_then : Managed → Phy → Call ℕ → Call X557
stall_then managed f t = t >> reset_then managed f true

abbrev pub done_then : Port → Phy → Bool → Call (Unit {0}) → Call X557
done_then port f unstalled t = t >> return (prepared_of port f unstalled true)

abbrev pub got_sel : Managed → Res ℕ → Call X557
got_sel managed got = end got >>= λ sel. prepare_sel managed.port managed.veto sel

abbrev pub got_alarms : Managed → Phy → Res ℕ → Call X557
got_alarms managed f got = end got >>= λ alarms. alarms_then managed f alarms

abbrev pub resume_prepare : Managed → PrepareCopper → Res ℕ → Call X557
resume_prepare managed (prepare.Clock s) got = clock_then managed (resume_clock false s got)
resume_prepare managed prepare.Sel got = got_sel managed got
resume_prepare managed (prepare.Probe sel s) got = probe_then managed sel (resume_probe managed.port (sel_phy sel) s got)
resume_prepare managed (prepare.Scan sel s) got = scan_then managed sel (resume_scan managed.port s got)
resume_prepare managed (prepare.Alarms f) got = got_alarms managed f got
resume_prepare managed (prepare.Unstall f s) got = stall_then managed f (resume_modify managed.port (stall_of f) s got)
resume_prepare managed (prepare.Reset f unstalled s) got = done_then managed.port f unstalled (resume_reset managed.port f.phy true s got)

abbrev pub told_prepare : Managed → List ℕ → Step Job PrepareCopper (Res X557) → Call X557
told_prepare managed b = told_job managed.port b (λ s got _. resume_prepare managed s got)
