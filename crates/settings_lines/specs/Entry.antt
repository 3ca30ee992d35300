-- What a line says: nothing, words to load, a store, a look-up, or that the words are to be shown
use Rattle.std.specs.Prelude.{ℕ, cond, List, [], ◌∷◌, eqb, Option, Some, None, codes}
use Rattle.text.specs.Hex.{hex_word}
use Rattle.text.specs.Same.{same}
use Rattle.text.specs.Decimal.{decimal_number}
use Rattle.profile_table.specs.Entry.{Fields, first_field, last_of, onward}
use Rattle.settings_lines.specs.declared.entry.Entry.{Entry}
use Rattle.settings_lines.specs.declared.entry.Entry.TheVariants.{Blank, Load, Store, Newest, Named, Show}

-- a lan: one to eight hexadecimal digits
abbrev pub lan_field : Fields → Option (ℕ × Fields)
lan_field ws = first_field (hex_word 1 8) ws

-- a pause or a version: one to ten decimal digits
abbrev pub number_field : Fields → Option (ℕ × Fields)
number_field ws = first_field decimal_number ws

-- a veto: `0` or `1`
abbrev pub veto_word : List ℕ → Option ℕ
veto_word w = cond (same w (codes "1")) (Some 1) (cond (same w (codes "0")) (Some 0) None)

abbrev pub veto_field : Fields → Option (ℕ × Fields)
veto_field ws = first_field veto_word ws

-- lan, pause and veto, behind `store`
unfoldable pub store_entry : Fields → Option Entry
store_entry ws =
    onward (lan_field ws) (λ lan a.
    onward (number_field a) (λ pause b.
    onward (veto_field b) (λ veto c.
    last_of (Store lan pause (eqb veto 1)) c)))

-- lan, behind `newest`
unfoldable pub newest_entry : Fields → Option Entry
newest_entry ws = onward (lan_field ws) (λ lan a. last_of (Newest lan) a)

-- lan and version, behind `version`
unfoldable pub named_entry : Fields → Option Entry
named_entry ws = onward (lan_field ws) (λ lan a. onward (number_field a) (λ version b. last_of (Named lan version) b))

-- none where the line cannot be read; the words behind `load` are read one by one (Turn)
abbrev pub entry_of : Fields → Option Entry
entry_of [] = Some Blank
entry_of (w ∷ ws) =
    cond (same w (codes "load")) (Some Load)
    (cond (same w (codes "store")) (store_entry ws)
    (cond (same w (codes "newest")) (newest_entry ws)
    (cond (same w (codes "version")) (named_entry ws)
    (cond (same w (codes "show")) (last_of Show ws)
    None))))
