-- The proved cases of document 01 that are of words alone: what the definitions give, and what the document says. The table of
-- all, with those of operations, is that of crate calls
use Rattle.std.specs.Prelude.{ℕ, Bool, true, false, List, [], ◌∷◌, ◌++◌, Option, None, Some}
use Rattle.hardware.specs.declared.Family.TheVariants.{X552, X553}
use Rattle.words.specs.declared.link.Link.{Link}
use Rattle.words.specs.declared.link.Link.TheVariants as link
use Rattle.words.specs.Semaphore.{software, firmware, flash}
use Rattle.words.specs.Kr.{krm}
use Rattle.words.specs.Phy.{phy_id}
use Rattle.words.specs.Link.{link_of}
use Rattle.words.specs.Hostif.{fits}

-- as in the listing: an absent option is 0, a present one 1 and its value; a truth value is 0 or 1
abbrev truth : Bool → List ℕ
truth true = 1 ∷ []
truth false = 0 ∷ []

abbrev maybe_words : Option ℕ → List ℕ
maybe_words None = 0 ∷ []
maybe_words (Some n) = 1 ∷ n ∷ []

-- a link that is down has no words
abbrev link_words : Link → List ℕ
link_words link.Down = []
link_words (link.Up m) = maybe_words m

-- of both families
abbrev links_words : ℕ → List ℕ
links_words links = link_words (link_of X552 links) ++ link_words (link_of X553 links)

pub record Case : Type 0 where
  pub at : ℕ
  pub computed : List ℕ
  pub expected : List ℕ

abbrev pub case : ℕ → List ℕ → List ℕ → Case
case n c e = record { at = n; computed = c; expected = e }

unfoldable pub cases : List Case
cases =
    case 1 (software 6 ∷ firmware 6 ∷ []) (6 ∷ 0xc0 ∷ [])
    ∷ case 2 (software 1 ∷ firmware 1 ∷ flash 1 ∷ []) (1 ∷ 0x20 ∷ 0x10 ∷ [])
    ∷ case 3 (software 0x1806 ∷ firmware 0x1806 ∷ []) (0x1806 ∷ 0x60c0 ∷ [])
    ∷ case 4 (krm 1 0x420c ∷ []) (0x820c ∷ [])
    ∷ case 7 (maybe_words (phy_id 0x0154 0xb242) ++ maybe_words (phy_id 0 0xb242) ++ maybe_words (phy_id 0xffff 0xb242)) (1 ∷ 0x0154b240 ∷ 0 ∷ 0 ∷ [])
    ∷ case 10 (truth (fits 4 2) ++ truth (fits 5 2)) (1 ∷ 0 ∷ [])
    ∷ case 11 (links_words 0x60000000 ++ links_words 0x78000000) (1 ∷ 1000 ∷ 1 ∷ 1000 ∷ 1 ∷ 2500 ∷ 1 ∷ 2500 ∷ [])
    ∷ []
