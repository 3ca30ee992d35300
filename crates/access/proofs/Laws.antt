-- Jobs as talks that give a word
use Rattle.std.specs.Prelude.{Err, Ok}
use Rattle.hardware.specs.Talk.{Call, Res, end, ask, and_then, ◌>>◌, return}
use Prim.Native.Nat.{ℕ}
use mathlib.Core.List.{[]}
use mathlib.Core.Path.{◌≡◌, refl, ap, fun_ext}
use Rattle.hardware.specs.Block.{keep}
use Rattle.hardware.specs.declared.Port.{Port}
use Rattle.words.specs.Mdio.{address}
use Rattle.reference.specs.Sync.{plain, held_done}
use Rattle.reference.specs.Sync as sync
use Rattle.reference.specs.Acquire.{acquire, release, locked}
use Rattle.reference.specs.Mdio.{mask, read_reg, write_reg, write_body}
use Rattle.reference.specs.X552.{kr_read, kr_write, kr_write_body, nvm_word}
use Rattle.mdio.specs.declared.mdio.Wanted.TheVariants as wanted
use Rattle.sideband.specs.declared.kr_access.KrWanted.TheVariants as kr
use Rattle.jobs.specs.Job.{no_word, zero_of}
use Rattle.access.specs.Body.{kr_call, under_talk}
use Rattle.access.specs.declared.body.Held.TheVariants as held

-- nothing or 0 for a body that gives no word

module _ (give : Call (Unit {0})) where
  done_zero : (give : Call (Unit {0})) (x : Res (Unit {0})) → no_word (held_done plain give x) ≡ keep (held_done plain give (zero_of x)) []
  done_zero (end (Ok _)) (Ok _) = refl
  done_zero (end (Err e)) (Ok _) = refl
  done_zero (end (Ok _)) (Err e) = refl
  done_zero (end (Err _)) (Err e) = refl
  done_zero (ask a k) x = ap (ask a) (fun_ext (λ r. done_zero (k r) x))

  body_zero : (body : Call (Unit {0})) → no_word (and_then body (held_done plain give)) ≡ keep (and_then (body >> return 0) (held_done plain give)) []
  body_zero (end (Ok u)) = done_zero give (Ok u)
  body_zero (end (Err e)) = done_zero give (Err e)
  body_zero (ask a k) = ap (ask a) (fun_ext (λ r. body_zero (k r)))

  held_zero : (take body : Call (Unit {0})) → no_word (sync.held plain take give body) ≡ keep (sync.held plain take give (body >> return 0)) []
  held_zero (end (Ok _)) body = body_zero body
  held_zero (end (Err e)) body = refl
  held_zero (ask a k) body = ap (ask a) (fun_ext (λ r. held_zero (k r) body))

pub zero_begun : (port : Port) (mask : ℕ) (body : Call (Unit {0})) → no_word (locked plain port mask body) ≡ keep (locked plain port mask (body >> return 0)) []
zero_begun port mask body = held_zero (release port mask) (acquire port mask) body

module _ (port : Port) where
  pub read_begun : (phy dev reg : ℕ) → keep (read_reg port phy dev reg) [] ≡ under_talk port (mask port) (held.Mdio (wanted.Read (address phy dev reg)))
  unfolding read_reg
  read_begun phy dev reg = refl

  pub write_begun : (phy dev reg v : ℕ)
      → no_word (write_reg port phy dev reg v) ≡ under_talk port (mask port) (held.Mdio (wanted.Write (address phy dev reg) v))
  unfolding write_reg
  write_begun phy dev reg v = zero_begun port (mask port) (write_body (address phy dev reg) v)

  pub kr_read_begun : (a : ℕ) → keep (kr_read port.pause port a) [] ≡ under_talk port 6 (held.Kr (kr_call port (kr.Read a)))
  unfolding kr_read
  kr_read_begun a = refl

  pub kr_write_begun : (a v : ℕ) → no_word (kr_write port.pause port a v) ≡ under_talk port 6 (held.Kr (kr_call port (kr.Write a v)))
  unfolding kr_write
  kr_write_begun a v = zero_begun port 6 (kr_write_body port.pause a v)

  pub nvm_begun : (word : ℕ) → keep (nvm_word port word) [] ≡ under_talk port 0x401 (held.Nvm word)
  unfolding nvm_word
  nvm_begun word = refl
