use Rattle.tw_parse.proofs.Sources.{source_given, only_given, accepted_given, refused_given, apart, one_source_refusal}
use Rattle.tw_parse.proofs.parsing.parse.Goals as goal

pub returns-clause-tree : goal.returns-clause-tree
returns-clause-tree c = source_given _ _ _ c.read.ensures.found

pub returns-clause-only : goal.returns-clause-only
returns-clause-only c = only_given _ _ _ c.read.ensures.found

pub returns-clause-accepted : goal.returns-clause-accepted
returns-clause-accepted c = accepted_given _ _ _ c.read.ensures.found

pub returns-clause-refused : goal.returns-clause-refused
returns-clause-refused c = λ refusal e. refused_given _ _ refusal c.read.ensures.refused e

pub returns-clause-no_tree : goal.returns-clause-no_tree
returns-clause-no_tree c = λ refusal e tree s. apart _ tree refusal s (refused_given _ _ refusal c.read.ensures.refused e)

pub returns-clause-one_refusal : goal.returns-clause-one_refusal
returns-clause-one_refusal c = λ refusal e other n. one_source_refusal _ refusal other (refused_given _ _ refusal c.read.ensures.refused e) n
