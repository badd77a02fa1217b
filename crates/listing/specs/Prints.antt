-- What the program is to print once it uses the watch, from the bytes of its two files; no code prints it yet. None stands for a file that is missing or cannot be read.
use Rattle.std.specs.Prelude.{◌≡◌, ℕ, suc, cond, List, [], ◌∷◌, ◌++◌, map, length, replicate, Some, None, Ok, Err, codes, decimal, Option, Result, nat_le}
use Rattle.std.specs.List.{AllByRecursion}
use Rattle.codec.specs.declared.fault.CardFault.{CardFault}
use Rattle.codec.specs.Fault.{card_report}
use Rattle.rules.specs.declared.Word.{Word}
use Rattle.rules.specs.declared.Word.TheVariants as word
use Rattle.rules.specs.declared.Call.TheVariants as call
use Rattle.rules.specs.declared.Refusal.{Refusal}
use Rattle.rules.specs.declared.Answer.{Answer}
use Rattle.rules.specs.declared.Answer.TheVariants as answer
use Rattle.rules.specs.automata.Rules.{Rule, Event}
use Rattle.rules.specs.trees.Trees.{Tree}
use Rattle.rules.specs.trees.Costs.{expected}
use Rattle.rules.specs.watch.Verdicts.{word_of}
use Rattle.rules.specs.watch.Calls.{number_of, index_of}
use Rattle.rules.specs.watch.Promises.{Promise}
use Rattle.rulefile.specs.declared.fault.FileFault.{FileFault}
use Rattle.rulefile.specs.Fault.{file_report}
use Rattle.rulefile.specs.File.{Contents, file_of}
use Rattle.rulefile.specs.Rule.{rule_of}
use Rattle.sources.specs.PlainLogs.{checked_log}
use Rattle.listing.specs.Text.{refusal_text}
use Rattle.listing.specs.Output.{unreadable_text, fault_text}

-- ---- lines of text

-- the words of the verdicts
abbrev pub word_text : Word → List ℕ
word_text word.Open = codes "OPEN"
word_text word.Breach = codes "BREACH"
word_text word.Clear = codes "CLEAR"

-- a take: the count of events taken, the set of lines polled, and the verdict's word, with single spaces
abbrev pub take_text : ℕ → ℕ → Word → List ℕ
take_text count lines w = decimal count ++ (codes " " ++ (decimal lines ++ (codes " " ++ (word_text w ++ codes "\n"))))

-- the line of one answer, behind which `later` stands: a take has one line and goes on, and a refusal is the last line; takes answer nothing else
abbrev pub answer_text : ℕ → Result Answer Refusal → List ℕ → List ℕ
answer_text count (Ok (answer.Taken taken)) later = take_text count taken.polled (word_of taken.verdict) ++ later
answer_text count (Ok (answer.Shown shown)) later = []
answer_text count (Ok (answer.Tried tried)) later = []
answer_text count (Ok answer.Armed) later = []
answer_text count (Err why) later = refusal_text (number_of why) (index_of why)

-- the answers of takes, after `taken` events were taken, up to the first refusal
unfoldable pub takes_text : ℕ → List (Result Answer Refusal) → List ℕ
takes_text taken [] = []
takes_text taken (a ∷ answers) = answer_text (suc taken) a (takes_text (suc taken) answers)

-- ---- what is printed

-- a good rule, watched over a good log: takes are made, one more than the log has events, of a watch newly armed whose trees are fitted by expected cost,
-- and each has its line, up to the first that is refused
pub record Listed (rule : Rule) (log text : List ℕ) : Type 0 where
  pub trees : List Tree
  pub costs : List ℕ
  pub answers : List (Result Answer Refusal)
  pub left : List ℕ
  -- the log is a list of events that can come
  pub comes : AllByRecursion (Event rule) log
  pub promise : Promise expected rule trees costs (replicate (suc (length log)) call.Take) log answers left
  pub lines : text ≡ takes_text 0 answers

-- a file that is there and not too long
abbrev pub readable : Option (List ℕ) → Option (List ℕ)
readable None = None
readable (Some bytes) = cond (nat_le (length bytes) 65536) (Some bytes) None

-- the rule that a file holds, without the names
abbrev pub rule_read : List ℕ → Contents → Rule
rule_read f c = record {
  lines = map (λ l. l.value) (rule_of f c).lines;
  states = map (λ s. s.value) (rule_of f c).states;
  moves = (rule_of f c).moves;
}

-- the log's leftmost fault, or the watch over it
abbrev pub LogPrints : Rule → List ℕ → Result (Unit {0}) CardFault → List ℕ → Type 0
LogPrints rule log (Ok _) text = Listed rule log text
LogPrints rule log (Err fault) text = text ≡ fault_text (card_report fault)

-- a log is looked at once the rule is good
abbrev pub WithLog : Rule → Option (List ℕ) → List ℕ → Type 0
WithLog rule None text = text ≡ unreadable_text
WithLog rule (Some log) text = LogPrints rule log (checked_log log) text

-- the rule file's leftmost fault, or what comes of its rule and the log
abbrev pub RulePrints : List ℕ → Option (List ℕ) → Result Contents FileFault → List ℕ → Type 0
RulePrints f log (Ok c) text = WithLog (rule_read f c) log text
RulePrints f log (Err fault) text = text ≡ fault_text (file_report fault)

abbrev pub WithRule : Option (List ℕ) → Option (List ℕ) → List ℕ → Type 0
WithRule None log text = text ≡ unreadable_text
WithRule (Some f) log text = RulePrints f log (file_of f) text

-- the text that is printed of the two files
abbrev pub Prints : Option (List ℕ) → Option (List ℕ) → List ℕ → Type 0
Prints rule log text = WithRule (readable rule) (readable log) text
