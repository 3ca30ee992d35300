-- How many words each state of sideband is
use Prim.Native.Nat.{ℕ}
use mathlib.Core.Path.{◌≡◌, refl}
use mathlib.Core.List.{List, ◌++◌}
use lib.ListN.{length, drop}
use lib.Seq.{drop_at}
use Rattle.sideband.specs.declared.idle.Idle.TheVariants as idlev
use Rattle.sideband.specs.declared.idle.Idle.{Idle}
use Rattle.sideband.specs.declared.kr_access.Kr.TheVariants as krv
use Rattle.sideband.specs.declared.kr_access.Kr.{Kr}
use Rattle.sideband.specs.declared.kr_access.KrWanted.TheVariants as kr_wantedv
use Rattle.sideband.specs.declared.kr_access.KrWanted.{KrWanted}
use Rattle.sideband.specs.declared.nvm.Nvm.TheVariants as nvmv
use Rattle.sideband.specs.declared.nvm.Nvm.{Nvm}
use Rattle.packed.specs.Sideband.{words_kr_wanted, words_idle, words_kr, words_nvm}
use Rattle.packed.proofs.Width.Hostif.{post_length}

pub kr_wanted_length : (s : KrWanted) → length (words_kr_wanted s) ≡ 3
unfolding words_kr_wanted
kr_wanted_length (kr_wantedv.Read x0) = refl
kr_wanted_length (kr_wantedv.Write x0 x1) = refl

pub drop_kr_wanted : (s : KrWanted) (rest : List ℕ) → drop 3 (words_kr_wanted s ++ rest) ≡ rest
drop_kr_wanted s rest = drop_at (words_kr_wanted s) rest 3 (kr_wanted_length s)

pub idle_length : (s : Idle) → length (words_idle s) ≡ 3
unfolding words_idle
idle_length (idlev.Reading x0) = refl
idle_length (idlev.Waiting x0 x1) = refl

pub kr_length : (s : Kr) → length (words_kr s) ≡ 4
unfolding words_kr
kr_length (krv.First x0) = simp idle_length
kr_length krv.Select = refl
kr_length (krv.Second x0) = simp idle_length
kr_length krv.Data = refl

pub nvm_length : (s : Nvm) → length (words_nvm s) ≡ 5
unfolding words_nvm
nvm_length (nvmv.Post x0) = simp post_length
nvm_length nvmv.Data = refl
