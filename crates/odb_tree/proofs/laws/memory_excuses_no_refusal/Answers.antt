use Rattle.odb_tree.proofs.Excused.{create_excused, set_excused, set_all_excused, put_excused, resize_excused, get_excused, list_excused}
use Rattle.odb_tree.proofs.laws.memory_excuses_no_refusal.Goals as goal

pub returns-clause-create : goal.returns-clause-create
returns-clause-create c = create_excused

pub returns-clause-set : goal.returns-clause-set
returns-clause-set c = set_excused

pub returns-clause-set_all : goal.returns-clause-set_all
returns-clause-set_all c = set_all_excused

pub returns-clause-put : goal.returns-clause-put
returns-clause-put c = put_excused

pub returns-clause-resize : goal.returns-clause-resize
returns-clause-resize c = resize_excused

pub returns-clause-get : goal.returns-clause-get
returns-clause-get c = get_excused

pub returns-clause-list : goal.returns-clause-list
returns-clause-list c = list_excused

pub returns-clause-path_of : goal.returns-clause-path_of
returns-clause-path_of c = λ s row why reply. reply
