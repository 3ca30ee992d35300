-- Laws of calls: the Rust's `?` after a choice, and after another `?`
use Rattle.std.specs.Prelude.{Ok, Err}
use mathlib.Core.Path.{◌≡◌, refl, ap, ◌∙◌, fun_ext}
use mathlib.Core.Bool.{Bool, true, false}
use Rattle.hardware.specs.Talk.{Call, Res, and_then, or_stop, ◌>>=◌, pick}
use Rattle.hardware.proofs.Laws.{then_assoc}

pub pick_then : {A B : Type 0} (b : Bool) (s t : Call A) (k : A → Call B) → (pick b s t >>= k) ≡ pick b (s >>= k) (t >>= k)
pick_then true s t k = refl
pick_then false s t k = refl

pub bind_assoc : {A B C : Type 0} (t : Call A) (k : A → Call B) (l : B → Call C) → ((t >>= k) >>= l) ≡ (t >>= λ a. k a >>= l)
bind_assoc t k l = then_assoc t (or_stop k) (or_stop l) ∙ ap (and_then t) (fun_ext stop)
  where
    stop : (r : Res _) → and_then (or_stop k r) (or_stop l) ≡ or_stop (λ a. k a >>= l) r
    stop (Ok a) = refl
    stop (Err e) = refl
