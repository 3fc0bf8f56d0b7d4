-- Number, layer and place of each fault of a lexicon.
use Rattle.book.specs.declared.fault.Refusal.{Refusal}
use Rattle.lexicon.specs.declared.fault.LexiconFault.{LexiconFault}
use Rattle.lexicon.specs.declared.fault.LexiconFault.TheVariants.{BadSpelling, Full}

abbrev pub refusal : LexiconFault → Refusal
refusal (BadSpelling i) = record { number = 22; layer = 7; place = i }
refusal (Full n) = record { number = 23; layer = 7; place = n }
