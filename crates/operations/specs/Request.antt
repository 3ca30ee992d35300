-- What a call of `begin` asks for, by its operation, and whether it is turned away
use Rattle.std.specs.Prelude.{ℕ, Bool, false, length, List}
use Rattle.hardware.specs.Refusal.{refusal}
use Rattle.hardware.specs.Talk.{Res}
use Rattle.hardware.specs.declared.Port.{Port}
use Rattle.hardware.specs.declared.Request.{Request}
use Rattle.words.specs.Kr.{krm}
use Rattle.operations.specs.Pairs.{pairs_of, outside}
use Rattle.operations.specs.Windows.{are_bad}
use Rattle.operations.specs.declared.Operation.{Operation}
use Rattle.operations.specs.declared.Operation.TheVariants as operationv

-- a port, and nothing else that may be turned away
abbrev pub at_port : Port → Request
at_port port = record { port = port; phy = 0; device = 0; outside = false; pairs = 0; kr = 0; selected = 0; words = 0; bad_windows = false }

-- a PHY's and an MDIO device's address
abbrev pub at_phy : Port → (phy device : ℕ) → Request
at_phy port phy device =
    record { port = port; phy = phy; device = device; outside = false; pairs = 0; kr = 0; selected = 0; words = 0; bad_windows = false }

-- a PHY's address, and words for pairs of device and register
abbrev pub at_list : Port → ℕ → List ℕ → Request
at_list port phy ws =
    record {
      port = port;
      phy = phy;
      device = 0;
      outside = outside ws;
      pairs = length (pairs_of ws);
      kr = 0;
      selected = 0;
      words = 0;
      bad_windows = false;
    }

-- a KR register's address as it is named, and as CTRL is to be given it
abbrev pub at_kr : Port → (kr selected : ℕ) → Request
at_kr port kr selected =
    record { port = port; phy = 0; device = 0; outside = false; pairs = 0; kr = kr; selected = selected; words = 0; bad_windows = false }

-- a host block of so many words
abbrev pub of_words : Port → ℕ → Request
of_words port words =
    record { port = port; phy = 0; device = 0; outside = false; pairs = 0; kr = 0; selected = 0; words = words; bad_windows = false }

-- a PHY's address, and whether a poll's minute and windows are what they may not be
abbrev pub at_poll : Port → (phy : ℕ) → (bad_windows : Bool) → Request
at_poll port phy bad_windows =
    record { port = port; phy = phy; device = 0; outside = false; pairs = 0; kr = 0; selected = 0; words = 0; bad_windows = bad_windows }

-- `ws`: the words that are lent, the host block of a `command`, the pairs of an `mdio_list` or the windows of a `poll`; no other
-- operation has a use for any
unfoldable pub request : Port → Operation → List ℕ → Request
request port operationv.Command ws = of_words port (length ws)
request port (operationv.ReadReg phy device register) ws = at_phy port phy device
request port (operationv.MdioList phy) ws = at_list port phy ws
request port (operationv.WriteReg phy device register value) ws = at_phy port phy device
request port (operationv.Modify at) ws = at_phy port at.phy at.device
request port (operationv.Probe phy) ws = at_phy port phy 0
request port (operationv.Reset phy x557) ws = at_phy port phy 0
request port (operationv.Abilities phy) ws = at_phy port phy 0
request port (operationv.Advertise asked) ws = at_phy port asked.phy 0
request port (operationv.AnLink phy) ws = at_phy port phy 0
request port (operationv.KrRead address) ws = at_kr port address address
request port (operationv.KrWrite address value) ws = at_kr port address address
request port (operationv.KrModify c) ws = at_kr port c.port0 (krm port.lan c.port0)
request port (operationv.Poll w minute) ws = at_poll port w.phy (are_bad minute ws)
request port _ ws = at_port port

-- 20, 21, 22, 35, 31, 23, 32 or 40
abbrev pub refused : Port → Operation → List ℕ → Res (Unit {0})
refused port what ws = refusal (request port what ws)
