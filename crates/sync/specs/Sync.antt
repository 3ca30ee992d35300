-- acquire_bits and release_bits of a register pair and a mux that are chosen ahead, and what they still say where they are suspended
use Rattle.hardware.specs.declared.Action.{Action}
use Rattle.hardware.specs.declared.Step.{Step}
use Rattle.hardware.specs.Told.{told}
use Rattle.hardware.specs.Talk.{Call, Res, Reply}
use Rattle.sync.specs.declared.acquire_bits.Taking.{Taking}
use Rattle.sync.specs.declared.release_bits.Giving.{Giving}
use Rattle.words.specs.Semaphore.{bits}
use Rattle.reference.specs.Sync.{acquire_bits_times, release_bits_with, settle}
use Rattle.sync.specs.Bits.{resume_acquire, resume_release}
use Rattle.sync.specs.declared.sync.Sync.{Sync}
use Rattle.sync.specs.declared.sync.Sync.TheVariants.{Take, Give}
use Rattle.sync.specs.declared.sync.SyncCall.{SyncCall}

-- the Rust's functions, with what they look up by the family handed in
abbrev pub take_bits : SyncCall → Call (Unit {0})
take_bits call = acquire_bits_times call.regs (bits call.mask) call.mux 1000 0

abbrev pub give_bits : SyncCall → Call (Unit {0})
give_bits call = release_bits_with call.regs (bits call.mask).sw (settle call.mask) call.mux

-- what the machines inside are given
unfoldable pub taken : SyncCall → Taking
taken call = record { regs = call.regs; want = bits call.mask; mux = call.mux }

unfoldable pub given : SyncCall → Giving
given call = record { regs = call.regs; sw = (bits call.mask).sw; micros = settle call.mask }

abbrev pub resume_sync : SyncCall → Sync → Reply → Call (Unit {0})
resume_sync call (Take s) r = resume_acquire (taken call) s r
resume_sync call (Give s) r = resume_release (given call) s r

abbrev pub told_sync : SyncCall → Step Action Sync (Res (Unit {0})) → Call (Unit {0})
told_sync call = told (resume_sync call)
