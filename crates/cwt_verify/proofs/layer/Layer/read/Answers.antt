use Rattle.cwt_verify.proofs.Reading.{in_item, unread}
use Rattle.cwt_verify.proofs.layer.Layer.read.Goals as goal

pub returns-in_err-from_pull-in-Sign1-clause-refused : goal.returns-in_err-from_pull-in-Sign1-clause-refused
returns-in_err-from_pull-in-Sign1-clause-refused c =
    (unread c.args.lists c.args.plain c.args.outermost c.from_residual-in_err-from_pull-in-Sign1.result c.in_ok-whole_item.ensures.whole
    c.layer_item-item.ensures c.message_in-form.ensures c.in-Sign1.is c.in_err-from_pull-in-Sign1.ensures c.from_residual-in_err-from_pull-in-Sign1.ensures.1).1

pub returns-in_err-from_pull-in-Mac0-clause-refused : goal.returns-in_err-from_pull-in-Mac0-clause-refused
returns-in_err-from_pull-in-Mac0-clause-refused c =
    (unread c.args.lists c.args.plain c.args.outermost c.from_residual-in_err-from_pull-in-Mac0.result c.in_ok-whole_item.ensures.whole
    c.layer_item-item.ensures c.message_in-form.ensures c.in-Mac0.is c.in_err-from_pull-in-Mac0.ensures c.from_residual-in_err-from_pull-in-Mac0.ensures.1).1

pub returns-in_err-from_pull-in-Encrypt0-clause-refused : goal.returns-in_err-from_pull-in-Encrypt0-clause-refused
returns-in_err-from_pull-in-Encrypt0-clause-refused c =
    (unread c.args.lists c.args.plain c.args.outermost c.from_residual-in_err-from_pull-in-Encrypt0.result c.in_ok-whole_item.ensures.whole
    c.layer_item-item.ensures c.message_in-form.ensures c.in-Encrypt0.is
    c.in_err-from_pull-in-Encrypt0.ensures c.from_residual-in_err-from_pull-in-Encrypt0.ensures.1).1

pub returns-in_err-from_pull-in-Sign1-clause-read : goal.returns-in_err-from_pull-in-Sign1-clause-read
returns-in_err-from_pull-in-Sign1-clause-read c =
    (unread c.args.lists c.args.plain c.args.outermost c.from_residual-in_err-from_pull-in-Sign1.result c.in_ok-whole_item.ensures.whole
    c.layer_item-item.ensures c.message_in-form.ensures c.in-Sign1.is c.in_err-from_pull-in-Sign1.ensures c.from_residual-in_err-from_pull-in-Sign1.ensures.1).0

pub returns-in_err-from_pull-in-Mac0-clause-read : goal.returns-in_err-from_pull-in-Mac0-clause-read
returns-in_err-from_pull-in-Mac0-clause-read c =
    (unread c.args.lists c.args.plain c.args.outermost c.from_residual-in_err-from_pull-in-Mac0.result c.in_ok-whole_item.ensures.whole
    c.layer_item-item.ensures c.message_in-form.ensures c.in-Mac0.is c.in_err-from_pull-in-Mac0.ensures c.from_residual-in_err-from_pull-in-Mac0.ensures.1).0

pub returns-in_err-from_pull-in-Encrypt0-clause-read : goal.returns-in_err-from_pull-in-Encrypt0-clause-read
returns-in_err-from_pull-in-Encrypt0-clause-read c =
    (unread c.args.lists c.args.plain c.args.outermost c.from_residual-in_err-from_pull-in-Encrypt0.result c.in_ok-whole_item.ensures.whole
    c.layer_item-item.ensures c.message_in-form.ensures c.in-Encrypt0.is
    c.in_err-from_pull-in-Encrypt0.ensures c.from_residual-in_err-from_pull-in-Encrypt0.ensures.1).0

pub returns-in_err-from_pull-in-Sign-clause-refused : goal.returns-in_err-from_pull-in-Sign-clause-refused
returns-in_err-from_pull-in-Sign-clause-refused c =
    (unread c.args.lists c.args.plain c.args.outermost c.from_residual-in_err-from_pull-in-Sign.result c.in_ok-whole_item.ensures.whole
    c.layer_item-item.ensures c.message_in-form.ensures c.in-Sign.is c.in_err-from_pull-in-Sign.ensures c.from_residual-in_err-from_pull-in-Sign.ensures.1).1

pub returns-in_err-from_pull-in-Mac-clause-refused : goal.returns-in_err-from_pull-in-Mac-clause-refused
returns-in_err-from_pull-in-Mac-clause-refused c =
    (unread c.args.lists c.args.plain c.args.outermost c.from_residual-in_err-from_pull-in-Mac.result c.in_ok-whole_item.ensures.whole
    c.layer_item-item.ensures c.message_in-form.ensures c.in-Mac.is c.in_err-from_pull-in-Mac.ensures c.from_residual-in_err-from_pull-in-Mac.ensures.1).1

pub returns-in_err-from_pull-in-Encrypt-clause-refused : goal.returns-in_err-from_pull-in-Encrypt-clause-refused
returns-in_err-from_pull-in-Encrypt-clause-refused c =
    (unread c.args.lists c.args.plain c.args.outermost c.from_residual-in_err-from_pull-in-Encrypt.result c.in_ok-whole_item.ensures.whole
    c.layer_item-item.ensures c.message_in-form.ensures c.in-Encrypt.is
    c.in_err-from_pull-in-Encrypt.ensures c.from_residual-in_err-from_pull-in-Encrypt.ensures.1).1

pub returns-in_err-from_pull-in-Sign-clause-read : goal.returns-in_err-from_pull-in-Sign-clause-read
returns-in_err-from_pull-in-Sign-clause-read c =
    (unread c.args.lists c.args.plain c.args.outermost c.from_residual-in_err-from_pull-in-Sign.result c.in_ok-whole_item.ensures.whole
    c.layer_item-item.ensures c.message_in-form.ensures c.in-Sign.is c.in_err-from_pull-in-Sign.ensures c.from_residual-in_err-from_pull-in-Sign.ensures.1).0

pub returns-in_err-from_pull-in-Mac-clause-read : goal.returns-in_err-from_pull-in-Mac-clause-read
returns-in_err-from_pull-in-Mac-clause-read c =
    (unread c.args.lists c.args.plain c.args.outermost c.from_residual-in_err-from_pull-in-Mac.result c.in_ok-whole_item.ensures.whole
    c.layer_item-item.ensures c.message_in-form.ensures c.in-Mac.is c.in_err-from_pull-in-Mac.ensures c.from_residual-in_err-from_pull-in-Mac.ensures.1).0

pub returns-in_err-from_pull-in-Encrypt-clause-read : goal.returns-in_err-from_pull-in-Encrypt-clause-read
returns-in_err-from_pull-in-Encrypt-clause-read c =
    (unread c.args.lists c.args.plain c.args.outermost c.from_residual-in_err-from_pull-in-Encrypt.result c.in_ok-whole_item.ensures.whole
    c.layer_item-item.ensures c.message_in-form.ensures c.in-Encrypt.is
    c.in_err-from_pull-in-Encrypt.ensures c.from_residual-in_err-from_pull-in-Encrypt.ensures.1).0

pub returns-in_err-from_pull-in-Sign1-clause-memory : goal.returns-in_err-from_pull-in-Sign1-clause-memory
returns-in_err-from_pull-in-Sign1-clause-memory c = in_item c.in_ok-whole_item.ensures.whole c.from_residual-in_err-from_pull-in-Sign1.result

pub returns-in_err-from_pull-in-Mac0-clause-memory : goal.returns-in_err-from_pull-in-Mac0-clause-memory
returns-in_err-from_pull-in-Mac0-clause-memory c = in_item c.in_ok-whole_item.ensures.whole c.from_residual-in_err-from_pull-in-Mac0.result

pub returns-in_err-from_pull-in-Encrypt0-clause-memory : goal.returns-in_err-from_pull-in-Encrypt0-clause-memory
returns-in_err-from_pull-in-Encrypt0-clause-memory c = in_item c.in_ok-whole_item.ensures.whole c.from_residual-in_err-from_pull-in-Encrypt0.result

pub returns-in_err-from_pull-in-Sign-clause-memory : goal.returns-in_err-from_pull-in-Sign-clause-memory
returns-in_err-from_pull-in-Sign-clause-memory c = in_item c.in_ok-whole_item.ensures.whole c.from_residual-in_err-from_pull-in-Sign.result

pub returns-in_err-from_pull-in-Mac-clause-memory : goal.returns-in_err-from_pull-in-Mac-clause-memory
returns-in_err-from_pull-in-Mac-clause-memory c = in_item c.in_ok-whole_item.ensures.whole c.from_residual-in_err-from_pull-in-Mac.result

pub returns-in_err-from_pull-in-Encrypt-clause-memory : goal.returns-in_err-from_pull-in-Encrypt-clause-memory
returns-in_err-from_pull-in-Encrypt-clause-memory c = in_item c.in_ok-whole_item.ensures.whole c.from_residual-in_err-from_pull-in-Encrypt.result
