mod Ends
mod JoinedKeys
