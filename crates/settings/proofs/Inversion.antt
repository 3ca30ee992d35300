-- What a call that was done, or refused, tells
use Rattle.std.proofs.Common.{ℕ, ◌≡◌, ◌<◌, ◌≤◌, ◌⊎◌, inl, inr, Bool, true, false, not, cond, List, ltb, Option, Some, None, Result, Ok, Err, refl, sym, arith}
use borrow.Author.Tests.{ltb-true, ltb-false, le-ltb}
use Rattle.settings.specs.Records.{head}
use Rattle.settings.specs.Whole.{is_pause, is_whole}
use Rattle.settings.specs.Calls.{read, free, above, next_version, put, put_at, store}
use Rattle.settings.specs.declared.fault.Fault.{Fault}
use Rattle.settings.specs.declared.fault.Fault.TheVariants.{Lan, Pause, Damaged, Full}
use Rattle.settings.specs.declared.setting.Setting.{Setting}
use Rattle.settings.proofs.Parts.{free_inside}
use Rattle.settings.proofs.Grown.{Putting}

abbrev Out : Type 0
Out = Result ℕ Fault × List ℕ

-- a store that was done
pub record Done (s : List ℕ) (lan pause : ℕ) (veto : Bool) (r : Result ℕ Fault) (t : List ℕ) : Type 0 where
  pub v : ℕ
  pub i : ℕ
  pub answer : r ≡ Ok v
  pub putting : Putting s lan i v pause
  pub first : free s ≡ Some i
  pub left : t ≡ put s lan i v pause veto

-- a store that was refused
pub record Refused (s : List ℕ) (r : Result ℕ Fault) (t : List ℕ) : Type 0 where
  pub fault : Fault
  pub answer : r ≡ Err fault
  pub left : t ≡ s

module _ (s : List ℕ) (lan pause : ℕ) (veto : Bool) where
  abbrev pub Either : Result ℕ Fault × List ℕ → Type 0
  Either o = Done s lan pause veto o.0 o.1 ⊎ Refused s o.0 o.1

  refused : (f : Fault) → Either (Err f, s)
  refused f = inr (record { fault = f; answer = refl; left = refl })

  next_small : (v : ℕ) → next_version s lan ≡ Some v → (v ≡ above s (head s lan)) × (v < 4294967296)
  next_small v h = go (ltb (above s (head s lan)) 4294967296) refl h
    where
      go : (b : Bool) → ltb (above s (head s lan)) 4294967296 ≡ b → cond b (Some (above s (head s lan))) None ≡ Some v → (v ≡ above s (head s lan)) × (v < 4294967296)
      go true e f = let same : above s (head s lan) ≡ v = cc in (sym same, let low = ltb-true (above s (head s lan)) 4294967296 e in omega arith)
      go false e f = absurd (let z : ⊥ = cc in z)

  pub outcome : Either (store s lan pause veto)
  unfolding store
  outcome = port (ltb 1 lan) refl
    where
      placed : lan ≤ 1 → is_pause pause ≡ true → is_whole s ≡ true → (v i : Option ℕ) → next_version s lan ≡ v → free s ≡ i → Either (put_at s lan pause veto v i)
      placed l p w None i e f = refused Full
      placed l p w (Some v) None e f = refused Full
      placed l p w (Some v) (Some i) e f =
          let n = next_small v e in
          let inside = free_inside s {i = i} f in
          inl
          (record {
            v = v;
            i = i;
            answer = refl;
            putting = record { whole = w; port = l; above0 = inside.0; inside = inside.1; free = inside.2; range = p; next = n.0; small = n.1 };
            first = f;
            left = refl;
          })

      whole : lan ≤ 1 → is_pause pause ≡ true → (b : Bool) → is_whole s ≡ b → Either (cond (not b) (Err Damaged, s) (put_at s lan pause veto (next_version s lan) (free s)))
      whole l p true e = placed l p e (next_version s lan) (free s) refl refl
      whole l p false e = refused Damaged

      range : lan ≤ 1 → (b : Bool) → is_pause pause ≡ b → Either (cond (not b) (Err Pause, s) (cond (not (is_whole s)) (Err Damaged, s) (put_at s lan pause veto (next_version s lan) (free s))))
      range l true e = whole l e (is_whole s) refl
      range l false e = refused Pause

      port : (b : Bool) → ltb 1 lan ≡ b
          → Either (cond b (Err Lan, s) (cond (not (is_pause pause)) (Err Pause, s) (cond (not (is_whole s)) (Err Damaged, s) (put_at s lan pause veto (next_version s lan) (free s)))))
      port true e = refused Lan
      port false e = range (ltb-false 1 lan e) (is_pause pause) refl

-- ---- reading
pub record IsRead (s : List ℕ) (lan : ℕ) (found : Option Setting) (x : Option Setting) : Type 0 where
  pub port : lan ≤ 1
  pub whole : is_whole s ≡ true
  pub same : found ≡ x

pub read_tells : (s : List ℕ) (lan : ℕ) (found x : Option Setting) → read s lan found ≡ Ok x → IsRead s lan found x
read_tells s lan found x h = go (ltb 1 lan) (is_whole s) refl refl h
  where
    go : (a b : Bool) → ltb 1 lan ≡ a → is_whole s ≡ b → cond a (Err Lan) (cond b (Ok found) (Err Damaged)) ≡ Ok x → IsRead s lan found x
    go true b e f g = absurd (let z : ⊥ = cc in z)
    go false true e f g = record { port = ltb-false 1 lan e; whole = f; same = cc }
    go false false e f g = absurd (let z : ⊥ = cc in z)

pub reads : (s : List ℕ) (lan : ℕ) (found : Option Setting) → lan ≤ 1 → is_whole s ≡ true → read s lan found ≡ Ok found
reads s lan found l w = rw (le-ltb 1 lan l, w) refl
