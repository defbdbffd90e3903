-- `referent_at` reads the text of a command 1; any other command at which a lookup stops is external.
use Rattle.entity.proofs.referent_at.Goals as goal

pub text_start-start-requires : goal.text_start-start-requires
text_start-start-requires c = c.requires.1 c.if-list-at-eq-TEXT.true

pub text_length-requires : goal.text_length-requires
text_length-requires c = c.requires.1 c.if-list-at-eq-TEXT.true
