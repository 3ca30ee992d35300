-- What a line says: nothing, a row, or a look-up
use Rattle.std.specs.Prelude.{ℕ, cond, List, [], ◌∷◌, leb, length, map, drop, ◌<◌, eqb, Option, Some, None, codes}
use Rattle.std.specs.Option.{option_map}
use Rattle.text.specs.Words.{words}
use Rattle.text.specs.Hex.{hex_word}
use Rattle.text.specs.Same.{same}
use Rattle.text.specs.Decimal.{at_most, decimal_number}
use Rattle.profile_table.specs.Rows.{row}
use Rattle.profile_table.specs.declared.row.Row.{Row}
use Rattle.profile_table.specs.declared.entry.Entry.{Entry}
use Rattle.profile_table.specs.declared.entry.Entry.TheVariants.{Blank, Ranged, Look}

abbrev pub Fields : Type 0
Fields = List (List ℕ)

-- a comma is a blank
abbrev pub blank : ℕ → ℕ
blank b = cond (eqb b 44) 32 b

-- what stands between blanks, tabs and commas
abbrev pub fields : List ℕ → Fields
fields line = words (map blank line)

-- the first field as a number, and those behind it
abbrev pub first_field : (List ℕ → Option ℕ) → Fields → Option (ℕ × Fields)
first_field read [] = None
first_field read (w ∷ ws) = option_map (λ v. (v, ws)) (read w)

-- four hexadecimal digits
abbrev pub hex_field : Fields → Option (ℕ × Fields)
hex_field ws = first_field (hex_word 4 4) ws

-- a profile: one to three decimal digits, at most 255
unfoldable pub profile_word : List ℕ → Option ℕ
profile_word word = cond (leb (length word) 3) (at_most 255 (decimal_number word)) None

abbrev pub decimal_field : Fields → Option (ℕ × Fields)
decimal_field ws = first_field profile_word ws

-- x, where no field is left
abbrev pub last_of : {X : Type 0} → X → Fields → Option X
last_of x [] = Some x
last_of x (w ∷ ws) = None

abbrev pub onward : {X : Type 0} → Option (ℕ × Fields) → (ℕ → Fields → Option X) → Option X
onward None then = None
onward (Some (v, ws)) then = then v ws

-- device, first and last version, profile
unfoldable pub row_entry : Fields → Option Row
row_entry ws =
    onward (hex_field ws) (λ device a.
    onward (hex_field a) (λ first b.
    onward (hex_field b) (λ last c.
    onward (decimal_field c) (λ profile d.
    last_of (row device first last profile) d))))

-- device and version, behind `look`
unfoldable pub look_entry : Fields → Option Entry
look_entry ws =
    onward (hex_field ws) (λ device a.
    onward (hex_field a) (λ version b.
    last_of (Look device version) b))

-- none where the line cannot be read
abbrev pub entry_of : Fields → Option Entry
entry_of [] = Some Blank
entry_of (w ∷ ws) = cond (same w (codes "look")) (look_entry ws) (option_map Ranged (row_entry (w ∷ ws)))

-- a number and the fields from a place of the line on
abbrev pub left_of : List ℕ → Option (ℕ × ℕ) → Option (ℕ × Fields)
left_of line None = None
left_of line (Some (v, at)) = Some (v, words (drop at line))

abbrev pub IsShort : Option (ℕ × ℕ) → Type 0
IsShort None = Unit {0}
IsShort (Some (v, at)) = v < 65536
