-- The worked machine: five queues, a TLB over the walker and a blank data set, with the numbers of Table.
use Rattle.std.specs.Prelude.{ℕ, ◌*◌, List, [], ◌∷◌, Ok, Err, Result, replicate}
use Rattle.std.specs.Result.{result_map_both}
use Rattle.dataset.specs.Format.{blank_set, set_rules}
use Rattle.model.specs.declared.calls.Reply.{Reply}
use Rattle.model.specs.declared.calls.Reply.TheVariants.{Byte, Done}
use Rattle.model.specs.declared.calls.Call.{Call}
use Rattle.model.specs.declared.calls.Refusal.{Refusal}
use Rattle.model.specs.Ipl.{ipl}
use Rattle.model.specs.Layout.{vacant}
use Rattle.model.specs.Refusals.{number_of}
use Rattle.model.specs.Steps.{worked}
use Rattle.model.specs.World.{Config, Parts, World, parts_of}
use Rattle.queues.specs.Five.{Five, empty, five_rules}
use Rattle.tables.specs.declared.Controls.{Controls}
use Rattle.translation.specs.declared.pair.Pair.{Pair}
use Rattle.translation.specs.Layers.{tlb_rules, walker_rules}
use Rattle.cases.specs.declared.table.Configuration.{Configuration}
use Rattle.cases.specs.Table.{configured}

-- The three parts, and what their values are.
abbrev pub Translating : Type 0
Translating = Controls × List Pair

abbrev pub Machine : Type 0
Machine = World Translating Five (List ℕ)

abbrev pub parts : Parts Translating Five (List ℕ)
parts = parts_of (tlb_rules walker_rules) five_rules set_rules

-- A machine before its first IPL, with so many frames of zero bytes and so many blank slots.
abbrev pub off : ℕ → ℕ → Machine
off frames slots = record {
  config = record { frames = 0; supervisor = 0; pages = 0; partitions = [] };
  storage = replicate (2048 * frames) 0;
  keys = replicate 256 0;
  records = replicate 256 vacant;
  translator = (record { cr0 = 0; cr1 = 0 }, []);
  policy = empty;
  store = blank_set slots;
}

-- The worked machine before its first IPL, and what IPL is given.
abbrev pub wired : Machine
wired = off configured.frames configured.slots

abbrev pub config_of : Configuration → Config
config_of c = record { frames = c.frames; supervisor = c.supervisor; pages = c.pages; partitions = c.partitions }

abbrev pub sizes : Config
sizes = config_of configured

-- The machine after IPL.
unfoldable pub ready : Machine
ready = (ipl parts sizes wired).1

-- An answer as the tables of cases write it: a byte, done, or the number of a refusal.
abbrev pub Said : Type 0
Said = Result Reply ℕ

abbrev pub byte : ℕ → Said
byte b = Ok (Byte b)

abbrev pub done : Said
done = Ok Done

abbrev pub refused : ℕ → Said
refused n = Err n

abbrev pub saying : Result Reply Refusal → Said
saying r = result_map_both (λ reply. reply) number_of r

-- What a list of calls is answered, and the machine that it leaves.
abbrev pub said : List Call → Machine → List Said
said [] w = []
said (c ∷ cs) w = saying (worked parts c w).0 ∷ said cs (worked parts c w).1

abbrev pub after : List Call → Machine → Machine
after [] w = w
after (c ∷ cs) w = after cs (worked parts c w).1
