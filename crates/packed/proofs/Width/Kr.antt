-- How many words each state of kr is
use Prim.Native.Nat.{ℕ}
use mathlib.Core.Path.{◌≡◌, refl}
use mathlib.Core.List.{List, ◌++◌}
use lib.ListN.{length, drop}
use lib.Seq.{drop_at}
use Rattle.kr.specs.declared.modify.KrModify.TheVariants as kr_modifyv
use Rattle.kr.specs.declared.modify.KrModify.{KrModify}
use Rattle.kr.specs.declared.sequence.KrPlace.TheVariants as kr_placev
use Rattle.kr.specs.declared.sequence.KrPlace.{KrPlace}
use Rattle.packed.specs.Kr.{words_kr_modify, words_kr_place}

pub kr_modify_length : (s : KrModify) → length (words_kr_modify s) ≡ 2
unfolding words_kr_modify
kr_modify_length kr_modifyv.Reading = refl
kr_modify_length (kr_modifyv.Writing x0) = refl

pub kr_place_length : (s : KrPlace) → length (words_kr_place s) ≡ 3
unfolding words_kr_place
kr_place_length (kr_placev.Advertise x0 x1) = refl
kr_place_length kr_placev.Lane = refl
kr_place_length (kr_placev.Force x0) = refl
kr_place_length kr_placev.Train = refl
kr_place_length kr_placev.Ffe4 = refl
kr_place_length kr_placev.Ffe5 = refl
kr_place_length kr_placev.Coeff = refl
kr_place_length kr_placev.Restart = refl
kr_place_length kr_placev.RestartLane = refl

pub drop_kr_place : (s : KrPlace) (rest : List ℕ) → drop 3 (words_kr_place s ++ rest) ≡ rest
drop_kr_place s rest = drop_at (words_kr_place s) rest 3 (kr_place_length s)
