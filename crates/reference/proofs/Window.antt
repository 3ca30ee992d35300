-- Outside all windows a poll is the Rust's
use Prim.Native.Nat.{ℕ, ◌%◌}
use mathlib.Core.Path.{◌≡◌, refl, ap, fun_ext, ◌∙◌}
use mathlib.Core.Bool.{Bool, true, false}
use Rattle.std.specs.Prelude.{Option, None, Some, Ok, Err}
use Rattle.hardware.specs.Talk.{Call, Res, and_then, or_stop, pick, return, ◌>>=◌}
use Rattle.hardware.proofs.Laws.{then_assoc}
use Rattle.hardware.specs.declared.Port.{Port}
use Rattle.words.specs.Link as words
use Rattle.answers.specs.declared.Internal.{Internal}
use Rattle.reference.specs.Mdio.{read_reg, an_link}
use Rattle.reference.specs.Watch.{Polled, is_forced, poll_speed, poll_down, poll_up, poll}
use Rattle.reference.specs.Window.{Due, force, due_speed, due_down, due_up, due, settle, window_poll}

-- the Rust's `?`, twice in a row
then_stop : {A B C : Type 0} (k : A → Call B) (l : B → Call C) (r : Res A) → and_then (or_stop k r) (or_stop l) ≡ or_stop (λ a. k a >>= l) r
then_stop k l (Ok a) = refl
then_stop k l (Err e) = refl

twice : {A B C : Type 0} (t : Call A) (k : A → Call B) (l : B → Call C) {m : A → Call C} → ((a : A) → k a >>= l ≡ m a)
    → (t >>= k) >>= l ≡ t >>= m
twice t k l h = then_assoc t (or_stop k) (or_stop l) ∙ ap (and_then t) (fun_ext (then_stop k l) ∙ ap or_stop (fun_ext h))

module _ (pause : ℕ) (port : Port) (internal : Internal) (forced : Option ℕ) (reforced : ℕ) where
  abbrev go : Due → Call Polled
  go d = settle false pause port internal forced reforced d

  picked : (b : Bool) (x y : Due) → go (pick b x y) ≡ pick b (go x) (go y)
  picked true x y = refl
  picked false x y = refl

  called : (b : Bool) (x y : Call Due) → pick b x y >>= go ≡ pick b (x >>= go) (y >>= go)
  called true x y = refl
  called false x y = refl

  speed : (status : ℕ) (m : Option ℕ) → go (due_speed forced reforced status m) ≡ poll_speed pause port internal forced reforced status m
  speed status None = refl
  speed status (Some megabits) = picked (is_forced forced status) _ (force status megabits)

  seen_up : (status : ℕ) (m : Option ℕ) (up : Bool)
      → go (pick up (due_speed forced reforced status m) (due_down reforced))
      ≡ pick up (poll_speed pause port internal forced reforced status m) (poll_down reforced)
  seen_up status m up =
      picked up (due_speed forced reforced status m) (due_down reforced) ∙ ap (λ x. pick up x (poll_down reforced)) (speed status m)

  went_up : (phy : ℕ) → due_up port phy forced reforced >>= go ≡ poll_up pause port phy internal forced reforced
  went_up phy =
      let end_of : ℕ → Bool → Due =
      λ v up. pick up (due_speed forced reforced (v % 8) (words.copper (v % 8))) (due_down reforced) in
      twice (read_reg port phy 7 0xc800) (λ v. an_link port phy >>= (λ up. return (end_of v up))) go
      (λ v. twice (an_link port phy) (λ up. return (end_of v up)) go (λ up. seen_up (v % 8) (words.copper (v % 8)) up))

  -- a poll outside all windows is the Rust's, for every Watch
  pub outside : (phy : ℕ) → window_poll false pause port phy internal forced reforced ≡ poll pause port phy internal forced reforced
  unfolding window_poll due poll
  outside phy =
      twice (an_link port phy) (λ up. pick up (due_up port phy forced reforced) (return (due_down reforced))) go
      (λ up. called up (due_up port phy forced reforced) (return (due_down reforced))
      ∙ ap (λ x. pick up x (poll_down reforced)) (went_up phy))
