-- A copy into a part of a slice
use Rattle.std.proofs.Common.{ℕ, ◌+◌, ◌≡◌, ◌≤◌, List, ◌++◌, length, take, drop, append_assoc, ap, sym, ◌∙◌}
use Rattle.std.proofs.lemmas.List.{drop-drop}
use Rattle.std.proofs.lemmas.List.Edits.{sets, sets-eq}
use borrow.Rule.Slice.PartMut.{put_mid}

-- after `out[at..at + k].copy_from_slice(words)`, which leaves ys in that part
pub sets_copy : (out : List ℕ) (at : ℕ) (words : List ℕ) (k : ℕ) (ys : List ℕ) → at + length words ≤ length out → k ≡ length words → ys ≡ words
    → sets out at words ≡ put_mid at k out ys
sets_copy out at words k ys h e f =
    sets-eq words out at h
    ∙ append_assoc (take at out) words (drop (at + length words) out)
    ∙ rw (e, f) (ap (λ (l : List ℕ). take at out ++ (words ++ l)) (sym (drop-drop (length words) at out)))
