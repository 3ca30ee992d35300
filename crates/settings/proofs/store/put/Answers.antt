use mir.Val.{bool_byte}
use Rattle.std.proofs.Common.{Bool, true, false, cond, ◌≡◌, ℕ, List, [], ◌∷◌, refl, ◌∙◌, ◌*◌, ap, set, arith}
use Rattle.settings.specs.Records.{head}
use Rattle.settings.specs.Calls.{new_record}
use Rattle.settings.proofs.PutLaws.{sets_copy}
use Rattle.settings.proofs.store.put.Goals as goal

byte_is : (b : Bool) → bool_byte b ≡ cond b 1 0
byte_is true = refl
byte_is false = refl

pub returns : goal.returns
returns c =
    let s = c.args.words.now in
    ap (λ (l : List ℕ). set l c.args.lan c.args.index) (sets_copy s (8 * c.args.index) (new_record (head s c.args.lan) c.args.version c.args.pause c.args.veto) _ _ (omega arith) (omega arith) (c.copy_from_slice.ensures.after ∙ ap (λ (veto : ℕ). head s c.args.lan ∷ c.args.version ∷ c.args.pause ∷ veto ∷ 0 ∷ 0 ∷ 0 ∷ 0 ∷ []) (c.from.ensures ∙ byte_is c.args.veto)))
