-- An answer's words in a listing: an enum is its place in the Rust from 0 (held, which the Rust has not, the next), then its fields;
-- an absent option is 0, a present one 1 and its value; a truth value is 0 or 1
use Rattle.std.specs.Prelude.{ℕ, Bool, true, false, List, [], ◌∷◌, ◌++◌, take, Option, None, Some}
use Rattle.words.specs.declared.link.Link.{Link}
use Rattle.words.specs.declared.link.Link.TheVariants as linkv
use Rattle.answers.specs.declared.Speeds.{Speeds}
use Rattle.answers.specs.declared.Internal.{Internal}
use Rattle.answers.specs.declared.Internal.TheVariants.{Ixfi, Kr}
use Rattle.answers.specs.declared.Words.{Words}
use Rattle.answers.specs.declared.Copper.{Copper}
use Rattle.answers.specs.declared.Copper.TheVariants as copperv
use Rattle.answers.specs.declared.X557.{X557}
use Rattle.answers.specs.declared.CopperSetup.{CopperSetup}
use Rattle.answers.specs.declared.Setup552.{Setup552}
use Rattle.answers.specs.declared.Setup552.TheVariants as setup552v
use Rattle.answers.specs.declared.SgmiiSetup.{SgmiiSetup}
use Rattle.answers.specs.declared.FirmwareSetup.{FirmwareSetup}
use Rattle.answers.specs.declared.Setup553.{Setup553}
use Rattle.answers.specs.declared.Setup553.TheVariants as setup553v
use Rattle.answers.specs.declared.Value.{Value}
use Rattle.answers.specs.declared.Value.TheVariants as valuev

abbrev pub flag : Bool → ℕ
flag false = 0
flag true = 1

abbrev pub internal : Internal → ℕ
internal Ixfi = 0
internal Kr = 1

abbrev pub maybe : Option ℕ → List ℕ
maybe None = 0 ∷ []
maybe (Some n) = 1 ∷ n ∷ []

abbrev pub scanned : Option (ℕ × ℕ) → List ℕ
scanned None = 0 ∷ []
scanned (Some (phy, id)) = 1 ∷ phy ∷ id ∷ []

abbrev pub link : Link → List ℕ
link linkv.Down = 0 ∷ []
link (linkv.Up m) = 1 ∷ maybe m

abbrev pub speeds : Speeds → List ℕ
speeds s = flag s.g10 ∷ flag s.g1 ∷ flag s.m100 ∷ []

abbrev pub activity : Words → List ℕ
activity w = w.w0 ∷ w.w1 ∷ w.w2 ∷ w.w3 ∷ []

abbrev pub copper : Copper → List ℕ
copper copperv.Down = 0 ∷ []
copper (copperv.Up m) = 1 ∷ m ∷ []
copper (copperv.Invalid status) = 2 ∷ status ∷ []
copper (copperv.Held m) = 3 ∷ m ∷ []

abbrev pub x557 : X557 → List ℕ
x557 p = p.phy ∷ p.id ∷ p.sel ∷ flag p.unstalled ∷ flag p.reset ∷ internal p.internal ∷ []

abbrev pub copper_setup : CopperSetup → List ℕ
copper_setup s = x557 s.x557 ++ speeds s.advertised ++ flag s.restarted ∷ []

abbrev pub setup552 : Setup552 → List ℕ
setup552 setup552v.Kx4 = 0 ∷ []
setup552 setup552v.Xfi = 1 ∷ []
setup552 setup552v.FirmwarePhy = 2 ∷ []
setup552 (setup552v.Kr lc) = 3 ∷ lc ∷ []
setup552 setup552v.ManageabilityVeto = 4 ∷ []
setup552 (setup552v.Copper s) = 6 ∷ copper_setup s

abbrev pub sgmii : SgmiiSetup → List ℕ
sgmii s = s.link_ctrl ∷ s.sgmii ∷ s.flx ∷ []

abbrev pub firmware : FirmwareSetup → List ℕ
firmware s = s.phy.id ∷ s.phy.speeds ∷ maybe s.internal ++ flag s.overtemp ∷ []

abbrev pub setup553 : Setup553 → List ℕ
setup553 (setup553v.Kr lc) = 0 ∷ lc ∷ []
setup553 (setup553v.Kr2500 sel) = 1 ∷ sel ∷ []
setup553 (setup553v.Sgmii s) = 2 ∷ sgmii s
setup553 setup553v.ManageabilityVeto = 3 ∷ []
setup553 (setup553v.X557 s) = 5 ∷ setup552 s
setup553 (setup553v.Firmware s) = 6 ∷ firmware s

-- the answer's own words; `command` has the host block's words behind them, and of `mdio_list` its values are all
abbrev pub value : Value → List ℕ
value valuev.Nothing = []
value (valuev.Flag b) = flag b ∷ []
value (valuev.Word w) = w ∷ []
value (valuev.Link l) = link l
value (valuev.Command status n) = status ∷ []
value (valuev.List n) = []
value (valuev.Activity w) = activity w
value (valuev.Probe id) = maybe id
value (valuev.Scan s) = scanned s
value (valuev.Abilities s) = speeds s
value (valuev.X552 s) = setup552 s
value (valuev.X553 s) = setup553 s
value (valuev.Poll c forced reforced) = copper c ++ maybe forced ++ reforced ∷ []

-- how many words of the block belong to it
abbrev pub block_words : Value → ℕ
block_words valuev.Nothing = 0
block_words (valuev.Flag b) = 0
block_words (valuev.Word w) = 0
block_words (valuev.Link l) = 0
block_words (valuev.Command status n) = n
block_words (valuev.List n) = n
block_words (valuev.Activity w) = 0
block_words (valuev.Probe id) = 0
block_words (valuev.Scan s) = 0
block_words (valuev.Abilities s) = 0
block_words (valuev.X552 s) = 0
block_words (valuev.X553 s) = 0
block_words (valuev.Poll c forced reforced) = 0

-- what a listing shows after `end ok`, with the block as it is then
abbrev pub fields : Value → List ℕ → List ℕ
fields v block = value v ++ take (block_words v) block
