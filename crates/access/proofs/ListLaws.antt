-- A list, pair by pair, and what is done for one word alone as a list without values
use Rattle.std.specs.Prelude.{Ok, Err}
use Rattle.hardware.specs.Talk.{Talk, Call, Res, end, ask, and_then}
use Prim.Native.Nat.{ℕ, zero, suc, min, ◌+◌, ◌/◌, ◌%◌, ◌<◌, ◌≤◌}
use mathlib.Core.Path.{◌≡◌, refl, ap, sym, fun_ext, ◌∙◌}
use mathlib.Core.Logic.{◌⊎◌, inl, inr}
use Rattle.std.proofs.Common.{take_all}
use mathlib.Core.List.{List, [], ◌∷◌, ◌++◌}
use native.Mathlib.Omega.{arith}
use native.Mathlib.Numerals.{add-one}
use lib.ListN.{length, take, drop, set, get_or}
use Rattle.hardware.specs.Block.{keep}
use Rattle.hardware.specs.Block as blk
use Rattle.hardware.specs.declared.Port.{Port}
use Rattle.hardware.proofs.Laws.{then_assoc}
use Rattle.words.specs.Mdio.{address}
use Rattle.reference.specs.Sync.{plain, with_values, held, held_done, held_taken}
use Rattle.reference.specs.Acquire.{release}
use Rattle.reference.specs.Mdio.{mask, read_body, list_body, list_held}
use Rattle.jobs.specs.Job.{zero_of, zeroed_list}
use Rattle.jobs.specs.List.{list_of, pairs_in}
use Rattle.jobs.proofs.List.{list_kept}
use Rattle.std.proofs.Math.ListN.{drop_of_length-le}
use Rattle.std.proofs.lemmas.List.{take_more_set, take_min, length-take, length-drop, drop-set-add, get_or-drop}
use Rattle.std.proofs.Math.Seq.{set_out}
use Rattle.access.specs.Access.{words_of, rest_of}
use Rattle.access.specs.declared.place.CommandFor.{CommandFor}
use Rattle.access.specs.declared.place.CommandFor.TheVariants as whose
use Rattle.access.specs.Body.{list_from, list_got}
use Rattle.access.specs.Frame.{frame_of, acquire_by, release_by}
use Rattle.access.proofs.Chosen.{acquire_lem, release_lem}

-- one word alone
done_plain : (give : Call (Unit {0})) (x : Res ℕ) → keep (held_done plain give x) [] ≡ held_done with_values give (x, [])
done_plain (end (Ok _)) (Ok v) = refl
done_plain (end (Err e)) (Ok v) = refl
done_plain (end (Ok _)) (Err e) = refl
done_plain (end (Err d)) (Err e) = refl
done_plain (ask a k) x = ap (ask a) (fun_ext (λ r. done_plain (k r) x))

pub alone : (give : Call (Unit {0})) (t : Call ℕ)
    → keep (and_then t (held_done plain give)) [] ≡ and_then (and_then t (λ got. end (got, []))) (held_done with_values give)
alone give (end x) = done_plain give x
alone give (ask a k) = ap (ask a) (fun_ext (λ r. alone give (k r)))

-- a list gives no word
module _ (give : Call (Unit {0})) where
  done_zeroed : (g : Call (Unit {0})) (x : Res (Unit {0})) (vs : List ℕ)
      → zeroed_list (held_done with_values g (x, vs)) ≡ held_done with_values g (zero_of x, vs)
  done_zeroed (end (Ok _)) (Ok _) vs = refl
  done_zeroed (end (Err e)) (Ok _) vs = refl
  done_zeroed (end (Ok _)) (Err e) vs = refl
  done_zeroed (end (Err d)) (Err e) vs = refl
  done_zeroed (ask a k) x vs = ap (ask a) (fun_ext (λ r. done_zeroed (k r) x vs))

  body_zeroed : (body : Talk (Res (Unit {0}) × List ℕ))
      → zeroed_list (and_then body (held_done with_values give)) ≡ and_then (zeroed_list body) (held_done with_values give)
  body_zeroed (end p) = done_zeroed give p.0 p.1
  body_zeroed (ask a k) = ap (ask a) (fun_ext (λ r. body_zeroed (k r)))

  held_zeroed : (take : Call (Unit {0})) (body : Talk (Res (Unit {0}) × List ℕ))
      → zeroed_list (held with_values take give body) ≡ held with_values take give (zeroed_list body)
  held_zeroed (end (Ok _)) body = body_zeroed body
  held_zeroed (end (Err e)) body = refl
  held_zeroed (ask a k) body = ap (ask a) (fun_ext (λ r. held_zeroed (k r) body))

-- the job, from its frame
pub listing_begun : (port : Port) (phy n : ℕ) (ws : List ℕ)
    → zeroed_list (list_held port phy (pairs_in (take n ws)))
    ≡ and_then (acquire_by (frame_of port (mask port))) (held_taken with_values (release_by (frame_of port (mask port))) (list_from phy 0 n ws))
listing_begun port phy n ws =
    ap (λ (get : Call (Unit {0})). zeroed_list (held with_values get (release port (mask port)) (list_body phy (pairs_in (take n ws)) []))) (acquire_lem port (mask port))
    ∙ ap (λ (give : Call (Unit {0})). zeroed_list (held with_values (acquire_by (frame_of port (mask port))) give (list_body phy (pairs_in (take n ws)) []))) (release_lem port (mask port))
    ∙ held_zeroed (release_by (frame_of port (mask port))) (acquire_by (frame_of port (mask port))) (list_body phy (pairs_in (take n ws)) [])

-- places of a list
there : (i n : ℕ) (ws : List ℕ) → i < n → i < length ws → drop i (take n ws) ≡ get_or ws i 0 ∷ drop (suc i) (take n ws)
there i n [] h k = absurd (omega (arith, k))
there i zero (w ∷ ws) h k = absurd (omega (arith, h))
there zero (suc n) (w ∷ ws) h k = refl
there (suc i) (suc n) (w ∷ ws) h k = there i n ws (omega (arith, h)) (omega (arith, k))

past : (i n : ℕ) (ws : List ℕ) → length (take n ws) ≤ i → drop i (take n ws) ≡ []
past i n ws h = drop_of_length-le (take n ws) h

-- its value in the place of pair i changes none behind it
behind_set : (i n : ℕ) (ws : List ℕ) (v : ℕ) → drop (suc i) (take n (set ws i v)) ≡ drop (suc i) (take n ws)
behind_set i n [] v = refl
behind_set i zero (w ∷ ws) v = refl
behind_set zero (suc n) (w ∷ ws) v = refl
behind_set (suc i) (suc n) (w ∷ ws) v = behind_set i n ws v

module _ (phy i n : ℕ) (ws : List ℕ) where
  -- the pairs are read
  pub list_end : length (take n ws) ≤ i → list_from phy i n ws ≡ end (Ok 0, take i ws)
  list_end h = ap (λ (rest : List ℕ). zeroed_list (list_body phy (pairs_in rest) (take i ws))) (past i n ws h)

  module _ (h : i < n) (k : i < length ws) where
    abbrev rest : List (ℕ × ℕ)
    rest = pairs_in (drop (suc i) (take n ws))

    got : (r : Res ℕ) → zeroed_list (blk.or_stop (λ v vs. list_body phy rest (vs ++ v ∷ [])) r (take i ws)) ≡ list_got phy i n ws r
    got (Err e) = refl
    got (Ok v) =
        ap (λ (vs : List ℕ). zeroed_list (list_body phy rest vs)) (sym (take_more_set ws i v k))
        ∙ ap (λ (left : List ℕ). zeroed_list (list_body phy (pairs_in left) (take (i + 1) (set ws i v)))) (sym (behind_set i n ws v))
        ∙ ap (λ (j : ℕ). zeroed_list (list_body phy (pairs_in (drop j (take n (set ws i v)))) (take (i + 1) (set ws i v)))) (sym (add-one i))

    -- one of them is read by itself
    pub list_pair : {a : ℕ} → address phy (get_or ws i 0 / 0x10000) (get_or ws i 0 % 0x10000) ≡ a
        → list_from phy i n ws ≡ and_then (read_body a) (list_got phy i n ws)
    list_pair {a} is =
        ap (λ (left : List ℕ). zeroed_list (list_body phy (pairs_in left) (take i ws))) (there i n ws h k)
        ∙ ap (λ (at : ℕ). zeroed_list (blk.◌>>=◌ (keep (read_body at)) (λ v vs. list_body phy rest (vs ++ v ∷ [])) (take i ws))) is
        ∙ ap zeroed_list (then_assoc (read_body a) (λ r. end (r, take i ws)) (λ p. blk.or_stop (λ v vs. list_body phy rest (vs ++ v ∷ [])) p.0 p.1))
        ∙ then_assoc (read_body a) (λ r. blk.or_stop (λ v vs. list_body phy rest (vs ++ v ∷ [])) r (take i ws)) (λ p. end (zero_of p.0, p.1))
        ∙ ap (and_then (read_body a)) (fun_ext got)

-- a list's words in the block
pub whole : (b : List ℕ) → length b ≡ 80 → take 64 (drop 16 b) ≡ list_of b
unfolding list_of
whole b h = take_all 64 (drop 16 b) (let l = length-drop 16 b in omega (arith, h, l))

pub list_set : (b : List ℕ) (i v : ℕ) → list_of (set b (16 + i) v) ≡ set (list_of b) i v
unfolding list_of
list_set b i v = drop-set-add 16 b i v

pub list_length : (b : List ℕ) → length b ≡ 80 → length (list_of b) ≡ 64
unfolding list_of
list_length b h = length-drop 16 b ∙ omega (arith, h)

pub list_out : (b : List ℕ) (i v : ℕ) → length b ≡ 80 → 64 ≤ i → list_of b ≡ set (list_of b) i v
list_out b i v h k = let l = list_length b h in sym (set_out (list_of b) i v (omega (arith, l, k)))

takes : (m k : ℕ) (xs : List ℕ) → m ≤ k → take m (take k xs) ≡ take m xs
takes zero k xs h = refl
takes (suc m) zero xs h = absurd (omega (arith, h))
takes (suc m) (suc k) [] h = refl
takes (suc m) (suc k) (x ∷ xs) h = ap (λ (rest : List ℕ). x ∷ rest) (takes m k xs (omega (arith, h)))

pub few : (b : List ℕ) (n : ℕ) → length b ≡ 80 → take (min n 64) (list_of b) ≡ take n (list_of b)
few b n h = ap (λ (k : ℕ). take (min n k) (list_of b)) (sym (list_length b h)) ∙ take_min n (list_of b)

pub front : (b c : List ℕ) (n : ℕ) → length b ≡ 80 → take 64 c ≡ list_of b → take (min n 64) c ≡ take n (list_of b)
front b c n h e = sym (takes (min n 64) 64 c (omega arith)) ∙ ap (take (min n 64)) e ∙ few b n h

pub value_at : (b : List ℕ) (i : ℕ) → get_or (list_of b) i 0 ≡ get_or b (16 + i) 0
unfolding list_of
value_at b i = get_or-drop 16 b i 0

module _ (phy i n : ℕ) (b : List ℕ) (long : length b ≡ 80) where
  -- it has read its last
  pub pairs_read : length (take n (list_of b)) ≤ i → end (Ok 0, take (min i 64) (list_of b)) ≡ list_from phy i n (list_of b)
  pairs_read h = ap (λ (vs : List ℕ). end (Ok 0, vs)) (few b i long) ∙ sym (list_end phy i n (list_of b) h)

  pub none_left : (i < n × 64 ≤ i) ⊎ (n ≤ i) → length (take n (list_of b)) ≤ i
  none_left (inl h) = let l = length-take n (list_of b) in let k = list_length b long in omega (arith, l, k, h.1)
  none_left (inr h) = let l = length-take n (list_of b) in omega (arith, l, h)

  -- or reads one more
  pub pair_read : i < n → i < 64
      → and_then (read_body (address phy (get_or b (16 + i) 0 / 0x10000) (get_or b (16 + i) 0 % 0x10000))) (list_got phy i n (list_of b)) ≡ list_from phy i n (list_of b)
  pair_read h k =
      let l = list_length b long in
      sym (list_pair phy i n (list_of b) h (omega (arith, l, k)) (ap (λ (w : ℕ). address phy (w / 0x10000) (w % 0x10000)) (value_at b i)))

-- what a command leaves to a list
pub rest_far : (c : CommandFor) (b d : List ℕ) → length b ≡ 80 → length b < words_of c → rest_of c d ≡ rest_of c b
rest_far (whose.Job words) b d h k = refl
rest_far (whose.Token place) b d h k = absurd (omega (arith, h, k))

pub rest_kept : (c : CommandFor) (p b : List ℕ) → length p ≡ words_of c → rest_of c (p ++ drop (words_of c) b) ≡ rest_of c b
rest_kept (whose.Job words) p b h = refl
rest_kept (whose.Token place) p b h = list_kept p b h
