-- How each command is spelled.
use Rattle.std.specs.Prelude.{◌≡◌, ℕ, List, codes}
use Rattle.script.specs.declared.verb.Verb.{Verb}
use Rattle.script.specs.declared.verb.Verb.TheVariants.{Help, Wire, Save, Bad, Mark, Storage, Display, Alter, Walk, Controls, Slot, Ipl, Load, Store, Fix, Free, Purge, Settle, Entry, Keys, Frames, Queues, Pairs, State}
use Rattle.script.specs.declared.wrong.Wrong.{Wrong}
use Rattle.script.specs.declared.wrong.Wrong.TheVariants.{NoCommand}

abbrev pub spelled : Verb → List ℕ
spelled Help = codes "HELP"
spelled Wire = codes "WIRE"
spelled Save = codes "SAVE"
spelled Bad = codes "BAD"
spelled Mark = codes "MARK"
spelled Storage = codes "STORAGE"
spelled Display = codes "DISPLAY"
spelled Alter = codes "ALTER"
spelled Walk = codes "WALK"
spelled Controls = codes "CONTROLS"
spelled Slot = codes "SLOT"
spelled Ipl = codes "IPL"
spelled Load = codes "LOAD"
spelled Store = codes "STORE"
spelled Fix = codes "FIX"
spelled Free = codes "FREE"
spelled Purge = codes "PURGE"
spelled Settle = codes "SETTLE"
spelled Entry = codes "ENTRY"
spelled Keys = codes "KEYS"
spelled Frames = codes "FRAMES"
spelled Queues = codes "QUEUES"
spelled Pairs = codes "PAIRS"
spelled State = codes "STATE"

-- A word that spells no verb is no command.
abbrev pub IsNoVerb : List ℕ → Wrong → Type 0
IsNoVerb word e = e ≡ NoCommand
