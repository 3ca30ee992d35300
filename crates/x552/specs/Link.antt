-- What a suspended `copper_link` still says, from what its job gives
use Rattle.jobs.specs.declared.job.Job.{Job}
use Rattle.jobs.specs.Job.{told_job}
use Rattle.hardware.specs.declared.Step.{Step}
use Rattle.hardware.specs.Talk.{Call, Res, end, pick, is_clear, ◌>>=◌, ◌>>◌, read, return}
use Rattle.std.specs.Prelude.{ℕ, Bool, List, None}
use Rattle.answers.specs.declared.CopperSetup.{CopperSetup}
use Rattle.answers.specs.declared.Speeds.{Speeds}
use Rattle.answers.specs.declared.X557.{X557}
use Rattle.reference.specs.Mdio.{an_link, speeds_of}
use Rattle.reference.specs.X552.{without100, copper_advertise, copper_times, copper_able}
use Rattle.kr.specs.Sequence.{resume_sequence}
use Rattle.phy.specs.Advertise.{resume_advertise}
use Rattle.phy.specs.AnLink.{resume_an_link}
use Rattle.arguments.specs.declared.Advertised.{Advertised}
use Rattle.x552.specs.declared.link.CopperCall.{CopperCall}
use Rattle.x552.specs.declared.link.CopperLink.{CopperLink}
use Rattle.x552.specs.declared.link.CopperLink.TheVariants as link

abbrev pub asked_of : CopperCall → Speeds → Advertised
asked_of call s = record { phy = call.x557.phy; speeds = s; nbase = None; veto = call.managed.veto }

-- the Rust's functions, of these arguments
abbrev pub advertise_of : CopperCall → Speeds → Call CopperSetup
advertise_of call s = copper_advertise call.managed.port call.managed.veto call.x557 s

abbrev pub times_of : CopperCall → Speeds → ℕ → Call CopperSetup
times_of call s n = copper_times call.managed.port call.managed.veto call.x557 s n

-- what comes after each of its parts
abbrev pub advertise_then : X557 → Speeds → Call Bool → Call CopperSetup
advertise_then x s t = t >>= λ restarted. return (record { x557 = x; advertised = s; restarted = restarted })

abbrev pub linking_then : CopperCall → Speeds → ℕ → Call Bool → Call CopperSetup
linking_then call s n t = t >>= λ up. pick up (advertise_of call s) (times_of call s n)

abbrev pub links_then : CopperCall → Speeds → ℕ → ℕ → Call CopperSetup
links_then call s n links = pick (is_clear links 0x40000000) (times_of call s n) (linking_then call s n (an_link call.managed.port call.x557.phy))

abbrev pub ixfi_then : CopperCall → Speeds → Call ℕ → Call CopperSetup
ixfi_then call s t = t >> times_of call s 10

abbrev pub got_abilities : CopperCall → Res ℕ → Call CopperSetup
got_abilities call got = end got >>= λ v. copper_able call.managed.port.pause call.managed.port call.managed.veto call.x557 (without100 (speeds_of v))

abbrev pub got_wait : CopperCall → Speeds → ℕ → Res ℕ → Call CopperSetup
got_wait call s n got = end got >>= λ _. (read 0x42a4 >>= λ links. links_then call s n links)

abbrev pub got_links : CopperCall → Speeds → ℕ → Res ℕ → Call CopperSetup
got_links call s n got = end got >>= λ links. links_then call s n links

abbrev pub resume_link : CopperCall → CopperLink → Res ℕ → Call CopperSetup
resume_link call link.Abilities got = got_abilities call got
resume_link call (link.Ixfi s q) got = ixfi_then call s (resume_sequence call.managed.port q got)
resume_link call (link.Waiting s n) got = got_wait call s n got
resume_link call (link.Links s n) got = got_links call s n got
resume_link call (link.Linking s n a) got = linking_then call s n (resume_an_link call.managed.port call.x557.phy a got)
resume_link call (link.Advertise s a) got = advertise_then call.x557 s (resume_advertise call.managed.port (asked_of call s) a got)

abbrev pub told_link : CopperCall → List ℕ → Step Job CopperLink (Res CopperSetup) → Call CopperSetup
told_link call b = told_job call.managed.port b (λ s got _. resume_link call s got)
