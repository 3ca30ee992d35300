-- What the suspended closure of an `nvm_word` still says; its block is the first four words of the host block
use Rattle.hardware.specs.Told.{told}
use Rattle.hardware.specs.declared.Action.{Action}
use Rattle.hardware.specs.declared.Step.{Step}
use Rattle.hardware.specs.Talk.{Call, end, ◌>>=◌, ◌>>◌, read_raw, return, raw, Reply, Res}
use Rattle.std.specs.Prelude.{ℕ, ◌%◌, ◌^◌, List, [], ◌∷◌, take}
use Rattle.words.specs.Hostif.{nvm_address}
use Rattle.hostif.specs.Post.{resume_post}
use Rattle.sideband.specs.declared.nvm.Nvm.{Nvm}
use Rattle.sideband.specs.declared.nvm.Nvm.TheVariants as nvm

abbrev pub nvm_block : ℕ → List ℕ
nvm_block word = 0xff060031 ∷ nvm_address word ∷ 0x200 ∷ 0 ∷ []

abbrev pub nvm_read : Call ℕ → Call ℕ
nvm_read t =
    do
      v ← t
      return (v % 2 ^ 16)

abbrev pub nvm_posted : Call ℕ → Call ℕ
nvm_posted t = t >> nvm_read (read_raw 0x1580c)

abbrev pub resume_nvm : Nvm → List ℕ → Reply → Call ℕ
resume_nvm (nvm.Post s) b r = nvm_posted (resume_post s (take 4 b) r)
resume_nvm nvm.Data b r = nvm_read (end (raw r))

abbrev pub told_nvm : List ℕ → Step Action Nvm (Res ℕ) → Call ℕ
told_nvm b = told (λ s r. resume_nvm s b r)
