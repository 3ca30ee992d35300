-- What a suspended `advertise` still says, from what its job gives
use Rattle.jobs.specs.declared.job.Job.{Job}
use Rattle.jobs.specs.Job.{told_job}
use Rattle.hardware.specs.declared.Step.{Step}
use Rattle.hardware.specs.Bits.{inverse}
use Rattle.hardware.specs.Talk.{Call, Res, pick, ◌>>◌, return}
use Rattle.std.specs.Prelude.{ℕ, ◌-◌, Bool, true, false, List}
use Rattle.hardware.specs.declared.Port.{Port}
use Rattle.reference.specs.Mdio.{bit, nbase_keep, nbase_set, advertise}
use Rattle.phy.specs.Modify.{modify_of, resume_modify}
use Rattle.phy.specs.declared.advertise.Advertise.{Advertise}
use Rattle.arguments.specs.declared.Advertised.{Advertised}
use Rattle.phy.specs.declared.advertise.AdvertisePlace.{AdvertisePlace}
use Rattle.phy.specs.declared.advertise.AdvertisePlace.TheVariants as place
use Rattle.arguments.specs.declared.Register.{Register}

-- the Rust's function, of these arguments
abbrev pub advertise_of : Port → Advertised → Call Bool
advertise_of port a = advertise port a.phy a.speeds a.nbase a.veto

abbrev pub register_at : Advertised → ℕ → ℕ → ℕ → Register
register_at a register keep set = record { phy = a.phy; device = 7; register = register; keep = keep; set = set }

-- what each call of `modify` is for
abbrev pub register_of : Advertised → AdvertisePlace → Register
register_of a place.Ten = register_at a 0x20 (inverse 16 0x1000) (bit 0x1000 a.speeds.g10)
register_of a place.One = register_at a 0xc400 (nbase_keep a.nbase) (nbase_set a.nbase a.speeds.g1)
register_of a place.Hundred = register_at a 0x10 (inverse 16 0x180) (bit 0x100 a.speeds.m100)
register_of a place.Restart = register_at a 0 0xffff 0x200

abbrev pub advertise_hundred : Port → Advertised → Call Bool
advertise_hundred port a = pick a.veto (return false) (modify_of port (register_of a place.Restart) >> return true)

abbrev pub advertise_one : Port → Advertised → Call Bool
advertise_one port a = modify_of port (register_of a place.Hundred) >> advertise_hundred port a

-- what comes after it
abbrev pub advertise_then : Port → Advertised → AdvertisePlace → Call Bool
advertise_then port a place.Ten = modify_of port (register_of a place.One) >> advertise_one port a
advertise_then port a place.One = advertise_one port a
advertise_then port a place.Hundred = advertise_hundred port a
advertise_then port a place.Restart = return true

abbrev pub advertise_after : Port → Advertised → AdvertisePlace → Call ℕ → Call Bool
advertise_after port a p t = t >> advertise_then port a p

abbrev pub advertise_at : Port → Advertised → AdvertisePlace → Call Bool
advertise_at port a p = advertise_after port a p (modify_of port (register_of a p))

abbrev pub resume_advertise : Port → Advertised → Advertise → Res ℕ → Call Bool
resume_advertise port a s got = advertise_after port a s.place (resume_modify port (register_of a s.place) s.modify got)

abbrev pub told_advertise : Port → Advertised → List ℕ → Step Job Advertise (Res Bool) → Call Bool
told_advertise port a b = told_job port b (λ s got _. resume_advertise port a s got)
