-- The turns of all lines answer what is to be answered to them
use Rattle.std.proofs.Common.{ℕ, ◌≡◌, List, [], ◌∷◌, ◌++◌, fold, Option, Some, None, refl, sym, ◌∙◌, ap}
use Rattle.std.specs.Prelude.{⊤}
use Rattle.std.proofs.lemmas.List.Sums.{fold-append}
use Rattle.profile_table.specs.Table.{fault, profile, err_or, checked}
use Rattle.profile_table.specs.Turn.{kept, found, look_answer}
use Rattle.profile_table.specs.Session.{said, look_in, looks, answers, turns}
use Rattle.profile_table.specs.declared.row.Row.{Row}
use Rattle.profile_table.specs.declared.fault.Fault.{Fault}
use Rattle.profile_table.specs.declared.entry.Entry.{Entry}
use Rattle.profile_table.specs.declared.entry.Entry.TheVariants.{Blank, Ranged, Look}
use Rattle.profile_table.proofs.KeptLaws.{same_error, all_are_kept}

kept_push : (rows : List Row) (r : Row) → kept (fold kept [] rows) r ≡ fold kept [] (rows ++ r ∷ [])
kept_push rows r = sym (fold-append kept [] rows (r ∷ []))

-- a look-up in the rows that are kept is one in all rows
same_look : (rows : List Row) (device version : ℕ)
    → look_answer (fold kept [] rows) (checked (fold kept [] rows)) device version ≡ look_in rows device version
same_look rows device version = rw (same_error rows) (go (fault rows) refl)
  where
    go : (o : Option Fault) → fault rows ≡ o
        → look_answer (fold kept [] rows) (err_or {A = ⊤} o tt) device version ≡ said (err_or o (profile rows device version))
    go (Some f) e = refl
    go None e = ap (λ (l : List Row). found (profile l device version)) (all_are_kept rows e)

looks_on : (rows : List Row) (es : List (Option Entry)) → turns (fold kept [] rows) (Some (checked (fold kept [] rows))) es ≡ looks rows es
looks_on rows [] = refl
looks_on rows (None ∷ es) = refl
looks_on rows (Some Blank ∷ es) = looks_on rows es
looks_on rows (Some (Ranged r) ∷ es) = refl
looks_on rows (Some (Look device version) ∷ es) = rw (same_look rows device version, looks_on rows es) refl

-- behind some rows
answers_on : (rows : List Row) (es : List (Option Entry)) → turns (fold kept [] rows) None es ≡ answers rows es
answers_on rows [] = rw (same_error rows) refl
answers_on rows (None ∷ es) = refl
answers_on rows (Some Blank ∷ es) = answers_on rows es
answers_on rows (Some (Ranged r) ∷ es) = ap (λ (l : List ℕ). turns l None es) (kept_push rows r) ∙ answers_on (rows ++ r ∷ []) es
answers_on rows (Some (Look device version) ∷ es) = rw (same_look rows device version, looks_on rows es) refl

-- from the first line on, whatever the lines say: what is kept and judged once gives what all rows give
pub all_lines : (es : List (Option Entry)) → turns [] None es ≡ answers [] es
all_lines es = answers_on [] es
